-- Answers: a sheet's line and step, case by case. Steps: the steps of any input print the whole output. Printed: what the rounds of the loop have printed.
pub mod Answers
pub mod Steps
pub mod Printed
