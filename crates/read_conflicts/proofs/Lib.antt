pub mod ComparedSets
