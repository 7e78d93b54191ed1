-- Table: the rule of the inverse root's table. Forms: forms of the language that the code has for operators. Steps: the steps of the inverse root. Plain: none clamps, and its range.
pub mod Table
pub mod Forms
pub mod Steps
pub mod Plain
