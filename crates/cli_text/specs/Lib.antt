pub mod Cli
