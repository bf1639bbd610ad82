pub mod Compare
pub mod EveryUrl
pub mod Internal
