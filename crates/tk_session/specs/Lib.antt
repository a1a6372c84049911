pub mod Chain
pub mod Laws
pub mod Order
pub mod Sessions
