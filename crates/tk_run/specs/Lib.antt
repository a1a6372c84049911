pub mod Constant
pub mod Ends
pub mod Laws
pub mod Multi
pub mod Outcome
pub mod Printed
pub mod Sessions
