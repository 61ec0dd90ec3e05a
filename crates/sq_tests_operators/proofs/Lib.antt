mod Masses
mod OneRow
mod FewRows
mod NoneBelow
