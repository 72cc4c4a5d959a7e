pub mod Told
pub mod TraceRuns
