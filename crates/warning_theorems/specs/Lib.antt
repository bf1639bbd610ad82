pub mod Syntax
pub mod Examples
