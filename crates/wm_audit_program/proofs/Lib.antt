mod Canonical
mod Exports
mod Told
