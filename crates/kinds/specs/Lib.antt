pub mod Sheet
pub mod Checks
pub mod Kind
pub mod Prepass
pub mod Checked
pub mod Inner
pub mod Accepted
pub mod Laws
