pub mod Status
pub mod Words
pub mod Answer
pub mod WithoutPositions
pub mod Steps
pub use Rattle.upload_session.specs.Hashes
pub use Rattle.upload_session.specs.Session
