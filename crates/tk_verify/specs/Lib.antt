pub mod Driving
pub mod Faults
pub mod Faulty
pub mod Recorded
pub mod Verifying
