pub mod Same
pub mod Internal
pub mod Needless
pub mod Search
pub mod Blocks
pub mod Examples
