pub mod Expect
pub mod Expectations
pub mod Patterns
pub mod Internal
