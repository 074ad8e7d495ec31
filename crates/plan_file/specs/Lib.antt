pub mod PlanFile
