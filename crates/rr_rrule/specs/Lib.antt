pub mod RuleTexts
pub mod TextLaws
pub mod WriteLaws
