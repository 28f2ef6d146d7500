mod PlainTexts
mod PlainWords
mod PlainData
mod PlainLaws
mod LogPlain
mod WriteLaws
mod PageLaws
mod NameLaws
