pub mod WaitParts
