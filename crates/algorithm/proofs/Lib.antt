mod Computed
mod RowKeys
mod Rows
mod Masked
mod Questions
