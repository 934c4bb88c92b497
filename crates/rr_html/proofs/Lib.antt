mod HtmlLemmas
mod MarkupLemmas
