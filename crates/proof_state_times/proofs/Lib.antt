pub mod StateTimes
