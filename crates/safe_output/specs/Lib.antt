pub mod Bytes
pub mod Streams
pub mod Lines
pub mod Sanitize
pub mod Text
pub mod Html
pub mod Reader
pub mod Page
