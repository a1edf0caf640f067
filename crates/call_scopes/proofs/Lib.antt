pub mod MadeFor
mod OnlyNames
mod Shown
