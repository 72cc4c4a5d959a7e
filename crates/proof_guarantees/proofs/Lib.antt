pub mod Accepted
pub mod ScanningRuns
pub mod DeadEnds
pub mod PhaseWaits
pub mod OnceEach
pub mod DemandThree
pub mod StepDemandThree
pub mod Junction
