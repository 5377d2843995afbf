mod Prelude
mod Weights
mod ArrivalLaws
mod StoreLaws
mod BlockLaws
mod PartLaws
mod NodeSpills
