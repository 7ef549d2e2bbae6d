mod Ascii
mod Apart
mod ValuesBack
mod PartsBack
mod WrittenBack
mod RowsBack
