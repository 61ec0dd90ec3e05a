mod Sources
mod Starting
