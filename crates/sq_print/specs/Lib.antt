pub mod Texts
pub mod Catalogues
pub mod FaultTexts
pub mod Commas
