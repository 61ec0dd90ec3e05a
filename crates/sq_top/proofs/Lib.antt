mod PrefixLemmas
mod Reading
mod Endings
mod Serving
mod Telling
mod EnginesCross
