pub mod Excitation
