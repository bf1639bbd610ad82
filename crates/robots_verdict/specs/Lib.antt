pub mod Fault
pub mod Input
pub mod Internal
pub mod Report
