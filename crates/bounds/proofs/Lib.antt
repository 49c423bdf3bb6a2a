pub mod Stmts
pub mod ContractOf
pub mod SaidProgram
pub mod Refused
pub mod Programs
pub mod Texts
pub mod Fields
pub mod Ranges
