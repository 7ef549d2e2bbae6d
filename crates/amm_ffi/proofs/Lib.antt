mod Addresses
mod Loosened
