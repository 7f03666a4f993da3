pub mod Budgets
pub mod Asks
