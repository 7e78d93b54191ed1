pub mod Lsp
