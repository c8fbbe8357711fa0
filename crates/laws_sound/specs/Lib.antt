pub mod Linkless
pub mod LinklessLaws
pub mod Order
pub mod Orderly
pub mod Laws
pub mod Numbers
