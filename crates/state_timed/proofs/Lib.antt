pub mod TimedLaws
pub mod TimedRoundTrips
pub mod TimedWritten
