pub mod AdmittedBytes
pub mod AdmittedTimes
pub mod BlankTimes
pub mod OwnTimes
pub mod Records
pub mod StateTimes
pub mod Words
