pub mod QuickRuns
