pub mod Built
pub mod Filled
pub mod Loans
pub mod RowsTraced
pub mod Stamps
