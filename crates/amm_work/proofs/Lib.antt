mod Bytes
mod NoRoute
mod Plain
mod Rows
