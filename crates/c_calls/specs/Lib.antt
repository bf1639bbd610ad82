pub mod Batch
pub mod File
pub mod Kept
pub mod Number
pub mod Response
pub mod Verdicts
pub mod Status
pub mod Text
