pub mod Views
pub mod Forms
