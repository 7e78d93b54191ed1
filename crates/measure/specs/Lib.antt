pub mod Machine
pub mod CallList
