-- Specifications that follow the code, for contracts of private functions; you don't need to trust them.
-- Theorems such as `each_text_has_its_lines` connect those that `Executable` and `Labels` use with the
-- relations. No public clause depends on the others.
pub mod ByteSet
pub mod Cut
pub mod Statement
pub mod Delay
pub mod Line
pub mod Captured
pub mod Group
pub mod Segments
pub mod Agents
pub mod Robot
pub mod Site
pub mod Normalized
pub mod Plain
