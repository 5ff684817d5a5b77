pub mod SavedRuns
