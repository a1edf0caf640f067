mod Choosing
mod Copied
