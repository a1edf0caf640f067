pub mod Nodes
pub mod Cursor
pub mod Grammar
pub mod Reading
