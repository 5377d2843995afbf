pub mod Prelude
pub mod OnePlan
pub mod PlanExists
pub mod PreorderAddresses
pub mod PlanLines
