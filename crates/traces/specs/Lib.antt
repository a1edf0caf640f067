pub mod Traces
pub mod TraceLaws
pub mod StandsFor
pub mod Restricted
pub mod Certificates
