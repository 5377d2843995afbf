mod Prelude
mod LeastLines
mod ErrorLemmas
