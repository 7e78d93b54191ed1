-- Cosine: the table's index bound and its rule. Lsp: the definition in ℕ.
pub mod Cosine
pub mod Lsp
pub mod Frequencies
