pub mod Github
pub mod Sarif
