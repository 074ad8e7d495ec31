pub mod Incidence
pub mod ProgramInputs
