pub mod TimedLayout
pub mod TimedRoundTrips
