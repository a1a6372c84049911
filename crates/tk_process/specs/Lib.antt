pub mod Coordinating
pub mod Monitoring
pub mod Serving
