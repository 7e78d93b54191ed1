-- Bytes: numbers of 16 bits and their bytes. Words: parts of bytes as parts of numbers. Laid: how many bytes.
pub mod Bytes
pub mod Words
pub mod Laid
